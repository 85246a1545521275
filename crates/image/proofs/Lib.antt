-- That what an image promises holds, and images written out.
pub mod Flat
pub mod RuleWords
pub mod Images
pub mod Ascent
pub mod ImageLaws
pub mod Table
