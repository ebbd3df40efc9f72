pub mod Writer
pub mod Show
