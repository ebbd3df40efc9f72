-- The records of buffers that a caller lends for a call, and encode, open, take and close on them.
-- Assumes nothing.
use Rattle.std.specs.Prelude.{List, ℕ}
use denote.Ref.{at_last}
use Rattle.block.specs.Open.{Open, open_of}
use Rattle.block.specs.Take.{Take, take_of}
use Rattle.closing.specs.Close.{Close, close_of}
use Rattle.lipvezor.specs.Numbers.{block_of}
use Rattle.lipvezor.specs.Sending.{Sending, encoding}
use Rattle.lipvezor.specs.declared.Codeword.{Codeword}
use Rattle.lipvezor.specs.declared.Buffers.{Buffers}
use Rattle.lipvezor.specs.declared.Work.{Work}

-- a block's buffers on board afterwards: the same information, and the same place of the parity with these contents
abbrev pub codeword_after : Codeword → List ℕ → Codeword
codeword_after c parity = record { information = c.information; parity = at_last c.parity parity }

-- a block's buffers on the ground afterwards: the same two places, with these contents
abbrev pub buffers_after : Buffers → List ℕ → List ℕ → Buffers
buffers_after b symbols marks = record { symbols = at_last b.symbols symbols; marks = at_last b.marks marks }

-- close's work memory, likewise
abbrev pub work_after : Work → List ℕ → List ℕ → Work
work_after w words bytes = record { words = at_last w.words words; bytes = at_last w.bytes bytes }

-- encode, of a block's numbers and of what its buffers hold
abbrev pub encoding_lent : List ℕ → Codeword → Sending
encoding_lent numbers c = encoding (block_of numbers) c.information.now c.parity.now

-- open, likewise
abbrev pub opening : List ℕ → Buffers → Open
opening numbers b = open_of (block_of numbers) b.symbols.now b.marks.now

-- take, of the same and of a unit
abbrev pub taking : List ℕ → Buffers → List ℕ → Take
taking numbers b unit = take_of (block_of numbers) b.symbols.now b.marks.now unit

-- close, of the same and of what the work memory holds
abbrev pub closing : List ℕ → Buffers → Work → Close
closing numbers b w = close_of (block_of numbers) b.symbols.now b.marks.now w.words.now w.bytes.now
