pub mod Lines
pub mod Spans
pub mod Scripts
pub mod Readings
pub mod SpanLaws
pub mod ScriptLaws
