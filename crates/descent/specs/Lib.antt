-- the descent: what it keeps from unit to unit and from start to start
pub mod Descent
