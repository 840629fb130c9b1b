mod AccessSteps
mod CopiedOperands
mod LegalGroups
mod MadeResults
mod InPlaceLaws
mod TypedSteps
mod WrittenGroups
