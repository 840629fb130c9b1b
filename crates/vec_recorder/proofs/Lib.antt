mod CommandLineLaws
mod KeyOrderLaws
mod MemoryArgumentLaws
mod RunLaws
mod StopLaws
mod WatchArgumentLaws
