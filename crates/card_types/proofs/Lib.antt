pub mod ShapeFacts
