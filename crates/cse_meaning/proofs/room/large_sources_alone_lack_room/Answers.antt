use Rattle.cse_meaning.proofs.RoomWhole.{large_alone}
use Rattle.cse_meaning.proofs.room.large_sources_alone_lack_room.Goals as goal

pub returns : goal.returns
returns c = record { room = large_alone }
