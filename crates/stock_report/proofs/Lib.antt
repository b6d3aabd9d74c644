pub mod ReportedFacts
