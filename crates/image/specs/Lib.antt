-- The image of what is stored, the form that reading asks, and what an image promises.
pub mod Image
pub mod ImageLaws
