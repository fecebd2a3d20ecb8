pub mod Relocating
