use Rattle.vq_point_laws.proofs.PointWords.{unpack_pack, pack_unpack}
use Rattle.vq_point_laws.proofs.laws.point_words_are_exact.Goals as goal

pub returns : goal.returns
returns c = record { unpacked = unpack_pack; packed = pack_unpack }
