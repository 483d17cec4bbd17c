pub mod Symbols
pub mod Sending
mod Coding
pub mod PlainBits
pub mod InnerBits
pub mod DueBits
pub mod ReceivedBits
pub mod FollowedBits
pub mod Unfollowed
pub mod FewBits
mod Metrics
pub mod SymbolPlaces
pub mod GivenPieces
pub mod Decoders
pub mod PhasePieces
pub mod Counted
pub mod WithPhase
pub mod HandedPieces
pub mod DecoderCalls
pub mod DecoderReads
pub mod DecoderPieces
pub mod ReadOctets
pub mod Until
pub mod HandedBits
pub mod WorkedBits
pub mod WatchedWindows
pub mod KeptOctets
mod ReadWindows
mod DueWindows
pub mod ToldWindows
pub mod DecodedWindows
pub mod HandedAll
pub mod Sharing
