pub mod Shift
pub mod ShiftLaws
pub mod AlikeLaws
pub mod StayLaws
pub mod BeforeLaws
