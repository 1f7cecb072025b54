use Rattle.vq_memory_laws.proofs.MemoryLaws.{effect_sizes, effect_inside, effect_beside, effect_elsewhere}
use Rattle.vq_memory_laws.proofs.laws.commands_write_bytes.Goals as goal

pub returns-clause-sizes : goal.returns-clause-sizes
returns-clause-sizes c sizes x m h f = effect_sizes sizes x m h f

pub returns-clause-inside : goal.returns-clause-inside
returns-clause-inside c sizes x m h f k l = effect_inside sizes x m h f k l

pub returns-clause-beside : goal.returns-clause-beside
returns-clause-beside c sizes x m h f k l = effect_beside sizes x m h f k l

pub returns-clause-elsewhere : goal.returns-clause-elsewhere
returns-clause-elsewhere c sizes x m h f b n = effect_elsewhere sizes x m h f b n
