mod WorkedLines
mod WorkedStatements
mod WorkedInserts
mod WorkedSession
mod LineFacts
pub mod PrintFacts
pub mod StepFacts
mod IndexSteps
mod InsertSteps
pub mod QuerySteps
pub mod SampleSteps
mod PlanSteps
mod NamedFacts
mod CursorSteps
mod LeftSteps
mod WantedSteps
mod AnalyzeSteps
mod CountSteps
pub mod HeldSteps
mod UnfilteredFacts
mod PlanningFacts
pub mod StatementFacts
pub mod OwnFaults
pub mod OneStep
pub mod SameFetches
pub mod SamePuts
pub mod LargerRows
pub mod EntryFacts
pub mod SessionFacts
pub mod SessionSteps
