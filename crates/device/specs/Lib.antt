pub mod Sensor
pub mod Sorter
