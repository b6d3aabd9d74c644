pub mod WroteFacts
