-- Type safety: progress and preservation.
-- Sorts: types without the directions of channels; bodies of functions, and the preserved invariant.
pub mod Sorts
pub mod Bodies
pub mod Running
pub mod Attempting
pub mod Promises
-- Preservation in frames: values, operands, points, deeds.
pub mod SortedValues
pub mod SortedEvaluation
pub mod SortedAsks
pub mod SortedWider
pub mod SortedPoints
pub mod SortedFrames
pub mod SortedParts
pub mod SortedCalled
pub mod SortedOutcomes
pub mod SortedClauses
pub mod SortedDeeds
pub mod LoneDeeds
-- Progress and preservation of attempts at steps.
pub mod FineAttempts
pub mod FineMeetings
pub mod FineCommunications
pub mod FineWaits
pub mod FineClosing
pub mod SortedWrites
pub mod FineSteps
pub mod FineSelects
pub mod FineEvents
-- Checked programs have sorts.
pub mod CheckedExprs
pub mod Growing
pub mod GrowingActs
pub mod DeclaredNames
pub mod NewVariables
pub mod TakenValues
pub mod GivenValues
pub mod CheckedActs
pub mod CheckedNests
pub mod CheckedScopes
pub mod CheckedGrowth
pub mod CheckedBodies
pub mod CheckedPrograms
-- Checked programs have code.
pub mod NamedVariables
pub mod CodeOfActs
pub mod CodeOfBodies
pub mod CodeOfPrograms
-- Runs.
pub mod SortedRuns
pub mod StandingFrames
pub mod UsualChoices
pub mod CheckedRuns
