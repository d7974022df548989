pub mod Bench
pub mod DuctBench
pub mod CollectionBench
pub mod DrillBench
pub mod DoubledBench
pub mod SurveyBench
pub mod OneCut
