-- What is lent, what a taking leaves in it, and what the steps of a taking answer and leave.
pub mod Answers
pub mod Lent
