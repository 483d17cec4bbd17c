pub mod Sending
pub mod SentCodeblocks
pub mod Repairs
pub mod CleanStreams
pub mod DisturbedOctets
pub mod Polarity
pub mod OnlyItems
pub mod Symbols
pub mod SymbolPlaces
pub mod CleanSymbols
mod HasItems
mod DroppedItems
mod WholeFrames
pub mod ReceivedOctets
pub mod SentPhase
pub mod ComplementedOctets
mod CleanTotals
pub mod DueItems
pub mod FirstItems
pub mod WorkedItems
pub mod HandedItems
pub mod Handing
pub mod OriginRoom
pub mod KeptSymbols
pub mod Batches
pub mod Streaming
pub mod Holding
pub mod Apart
pub mod Until
mod Told
pub mod Ones
pub mod Settling
pub mod SkippedBits
pub mod AllBits
pub mod ReceivedPieces
pub mod Searched
pub mod Spare
pub mod PhasedItems
pub mod FurtherBits
pub mod FirstStage
pub mod Progress
pub mod GivenOctets
pub mod WatchedStages
pub mod FewItems
pub mod StagesEnd
pub mod ColumnsRead
pub mod Repaired
pub mod ExpectedItems
pub mod SoundItems
