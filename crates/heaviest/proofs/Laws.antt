pub mod Tests
pub mod Spans
pub mod Input
pub mod Drill
