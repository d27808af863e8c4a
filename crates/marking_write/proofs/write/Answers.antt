-- `write` meets its contract: the bytes are counted, and where they fit the two parts of the text are laid.
use Prim.Native.Nat.{ℕ, ◌+◌, ◌≤◌}
use mathlib.Core.Path.{◌≡◌, ap, ◌∙◌}
use mathlib.Core.List.{List}
use native.Mathlib.Omega.{arith}
use borrow.Author.Rules.{rules}
use lib.ListN.{length}
use lib.Seq.{sets}
use Rattle.text.specs.Printed.{number_text, texts}
use Rattle.text.proofs.LaidLaws.{Laid, number_line_length, lay-whole, lay-short}
use Rattle.text_write.proofs.WriterLaws.{lays_room, laid_by}
use Rattle.eos.specs.Model as eos
use Rattle.marking.specs.declared.Entry.{Entry}
use Rattle.marking.specs.Held.{as_sizes, tokens_of}
use Rattle.marking.specs.Printed.{held_text, block_text}
use Rattle.marking.proofs.KeptLaws.{length_held}
use Rattle.marking.proofs.HoldMarking.{Tested, held_few, held_tested}
use Rattle.marking.proofs.WriteLaws.{text_length, text_laid}
use Rattle.marking_write.proofs.write.Goals as goal
use Rattle.marking_write.proofs.write.Goals.{After-number_line, After-lines_length, After-held-entries}

pub held-entries-requires : goal.held-entries-requires
held-entries-requires c = held_few _ (as_sizes c.args.z.now) c.args.k.now c.requires.0

-- the marking passed its test
tested : (c : After-held-entries) → Tested (as_sizes c.args.z.now) c.args.k.now
tested c = held_tested (as_sizes c.args.z.now) c.args.k.now c.held-entries.ensures.room c.requires.0

-- there are at most 256 entries
few : (c : After-held-entries) → length c.held-entries.result.now ≤ 256
few c =
    let t = tested c in
    omega (arith, ap (λ (l : List Entry). length l) c.held-entries.ensures.entries, length_held c.args.k.now t.kept, t.kept.few)

-- the bytes of their lines
lines : (c : After-lines_length) → c.lines_length.result ≡ length (texts (held_text (as_sizes c.args.z.now)) c.held-entries.result.now)
lines c = c.lines_length.ensures.0

-- the bytes are those of the text
counted : (c : After-lines_length) →
    let a = c.args in
    (a.at + length a.key.now + c.digits.result + 1 + c.lines_length.result ≡ a.at + length (block_text a.key.now (eos.entries (tokens_of (as_sizes a.z.now) a.k.now))))
counted c =
    let z = as_sizes c.args.z.now in
    omega (
      arith,
      text_length z c.requires.1 c.args.k.now (held_tested z c.args.k.now c.held-entries.ensures.room c.requires.0) c.args.key.now,
      c.digits.ensures.0,
      c.lines_length.ensures.0,
      ap (λ (l : List Entry). length (texts (held_text z) l)) c.held-entries.ensures.entries,
    )

pub overflow_cast-count : goal.overflow_cast-count
overflow_cast-count c = omega (arith, held_few _ (as_sizes c.args.z.now) c.args.k.now c.requires.0)

pub lines_length-requires : goal.lines_length-requires
lines_length-requires c = (few (goal.at.lines_length-requires c).After-held-entries, c.requires.1)

pub overflow_add-end-4 : goal.overflow_add-end-4
overflow_add-end-4 c = omega (arith, few (goal.at.overflow_add-end-4 c).After-held-entries, c.digits.ensures.1, c.lines_length.ensures.1)

pub returns-then-out-end : goal.returns-then-out-end
returns-then-out-end c =
    let a = c.args in
    let e = counted (goal.at.returns-then-out-end c).After-lines_length in
    lay-short (block_text a.key.now (eos.entries (tokens_of (as_sizes a.z.now) a.k.now))) a.out.now a.at (omega (arith, e)) (omega (arith, e))

-- its first line
first : (c : After-number_line) → Laid (number_text c.args.key.now c.args.k.now.len) c.args.out.now c.args.at c.number_line.new.self.at c.number_line.new.self.out.now
first c = laid_by _ (rw c.from.ensures at c.number_line.ensures)

pub number_line-requires : goal.number_line-requires
number_line-requires c =
    let a = c.args in
    rw c.from.ensures (omega (arith, number_line_length a.key.now a.k.now.len, c.digits.ensures.0))

pub put_lines-requires : goal.put_lines-requires
put_lines-requires c =
    let a = c.args in
    let l = first (goal.at.put_lines-requires c).After-number_line in
    (c.requires.1, omega (arith, number_line_length a.key.now a.k.now.len, c.digits.ensures.0, c.lines_length.ensures.0, l.0, lays_room _ c.number_line.ensures))

-- what is left of the lent bytes
left : (l : List ℕ) {m n : List ℕ} → m ≡ l → l ≡ n → m ≡ n
left l p q = p ∙ q

pub returns : goal.returns
returns c =
    let a = c.args in
    let z = as_sizes a.z.now in
    let e = counted (goal.at.returns c).After-lines_length in
    lay-whole (block_text a.key.now (eos.entries (tokens_of z a.k.now))) a.out.now a.at (omega (arith, e)) (omega (arith, e))
    (left c.put_lines.new.w.out.now (search rules)
    (text_laid z c.requires.1 a.k.now (held_tested z a.k.now c.held-entries.ensures.room c.requires.0) a.key.now a.out.now a.at (first (goal.at.returns c).After-number_line)
    (c.put_lines.ensures.bytes
    ∙ ap (λ (l : List Entry). sets c.number_line.new.self.out.now c.number_line.new.self.at (texts (held_text z) l)) c.held-entries.ensures.entries)))
