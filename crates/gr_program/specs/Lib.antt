-- Checked programs: pure trees, the pure tree of the code's, and when two are the same.
pub mod Types
pub mod Programs
pub mod TypeViews
pub mod Views
pub mod Sameness
pub mod SamenessLaws
pub mod SameProgramLaws
pub mod Order
pub mod LastStarts
