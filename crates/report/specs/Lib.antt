-- What the contracts of src/ cite besides the definitions of 01, and what is claimed of the reports of a call.
pub mod Answer
pub mod Form
pub mod Reports
