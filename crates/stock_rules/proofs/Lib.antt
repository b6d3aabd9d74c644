pub mod PlusFacts
pub mod CountFacts
pub mod OneFacts
pub mod BatchFacts
pub mod ReportFacts
pub mod Examples
