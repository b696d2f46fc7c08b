pub mod HelperStays
pub mod HelperWaiting
pub mod HelperHinted
pub mod ControlStays
pub mod ControlWaiting
pub mod ControlHinted
pub mod Extents
