pub mod ByteView
pub mod IovecView
