-- `Reported`: a report is one. `Numbering`: by the table's numbers a result is told as the model has it.
pub mod Reported
pub mod Numbering
