-- Watermarks: what marks say, that they are final, stay final, and grow.
pub mod Known
pub mod Finals
pub mod Orders
pub mod Later
pub mod Publications
