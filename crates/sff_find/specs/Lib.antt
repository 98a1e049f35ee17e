pub mod Mark
