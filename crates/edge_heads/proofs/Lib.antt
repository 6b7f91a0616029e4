pub mod Lines
pub mod Blanks
pub mod RuleLemmas
pub mod Shapes
pub mod Parsers
pub mod Cuts
pub mod HeadLaws
pub mod PlaceLemmas
