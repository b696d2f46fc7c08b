pub mod Found
pub mod ScanInside
pub mod Endings
pub mod UpdateInside
pub mod Inside
pub mod Left
pub mod Hinted
