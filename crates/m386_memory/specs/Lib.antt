pub mod Contents
pub mod History
pub mod Fixed
pub mod NoHistory
