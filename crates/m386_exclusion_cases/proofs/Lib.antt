pub mod CleanRuns
