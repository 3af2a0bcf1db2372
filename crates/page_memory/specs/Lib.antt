pub mod Pages
pub mod Contents
pub mod Listed
