pub mod KeyReplies
pub mod Responses
