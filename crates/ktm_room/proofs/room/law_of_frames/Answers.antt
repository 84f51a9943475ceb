use Rattle.ktm_room.proofs.FrameLaws.{frames_law}
use Rattle.ktm_room.proofs.room.law_of_frames.Goals as goal

pub returns : goal.returns
returns c = frames_law c.law_of_file_calls.ensures
