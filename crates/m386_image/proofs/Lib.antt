pub mod Numbers
pub mod Sections
pub mod Plans
pub mod Judging
pub mod Valid
pub mod Filling
