pub mod NearestRecords
pub mod ReadRecords
mod Erasing
mod NearestWord
