-- a probe: what it asks, what it says of all schedules, and what it leaves
pub mod Probe
