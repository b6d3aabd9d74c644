pub mod LineFacts
