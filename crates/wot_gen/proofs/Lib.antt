pub mod Below
pub mod Spelled
pub mod SoFar
pub mod CommandsAppended
pub mod ScriptLines
pub mod Sizes
pub mod ThreeLines
