pub mod Instances
pub mod Results
