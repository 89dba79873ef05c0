pub mod Judge
pub mod JudgeStatement
pub mod Clauses
