-- What is printed for each reason why a source was not read whole.
use Rattle.std.specs.Prelude.{ℕ, List, codes}
use Rattle.vq_port.specs.declared.read.ReadFault.{ReadFault}
use Rattle.vq_port.specs.declared.read.ReadFault.TheVariants.{Failed, TooLong, Memory}

abbrev pub read_fault_text : ReadFault → List ℕ
read_fault_text Failed = codes "a read failed"
read_fault_text TooLong = codes "there are more bytes than the limit"
read_fault_text Memory = codes "out of memory"
