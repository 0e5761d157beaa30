pub mod Circuit
pub mod Desk
pub mod Given
pub mod Examples
pub mod Numbers
