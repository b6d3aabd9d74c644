pub mod FreeFacts
