pub mod UpdatingBegun
pub mod UpdatingEnded
