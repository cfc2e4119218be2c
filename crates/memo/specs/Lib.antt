-- keys, and what the memo may hold
pub mod Memo
