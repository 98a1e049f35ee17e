pub mod Headers
pub mod Tests
pub mod Opening
