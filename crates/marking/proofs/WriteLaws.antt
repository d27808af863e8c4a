-- The text of a marking: how long it is at most, that it is the text of the net-tokens that are held, and that it reads back.
use Prim.Native.Nat.{ℕ, suc, ◌+◌, ◌-◌, ◌≤◌, ◌<◌}
use mathlib.Core.Path.{◌≡◌, refl, ap, sym, ◌∙◌}
use mathlib.Core.List.{List, [], ◌∷◌, ◌++◌, map, append-nil}
use mathlib.Core.Bool.{true}
use native.Mathlib.Omega.{arith}
use native.Mathlib.Nat.{zero-add}
use lib.Dec.{leb, eqb}
use lib.ListN.{length, get_or, length-append, length-map}
use lib.Seq.{sets, drop-length}
use borrow.Author.Tests.{leb-true, eqb-true, eqb-false}
use Rattle.text.specs.Bytes.{Text, bytes, lf}
use Rattle.text.proofs.Basics.{by_test, and_true}
use Rattle.text.specs.Lines.{got, every, in_range}
use Rattle.text.specs.Printed.{decimal, end_text, counts_text, texts, number_text, token_text}
use Rattle.text.proofs.TestLaws.{and_both, within-is, every-at}
use Rattle.text.proofs.DecimalLaws.{length-below}
use Rattle.text.proofs.TextLengths.{texts-length, ended-length}
use Rattle.text.proofs.Standing.{Stands}
use Rattle.text.proofs.SetsLaws.{sets_append}
use Rattle.text.proofs.LaidLaws.{Laid, number_line_length}
use Rattle.eos.specs.Counted.{Counted, counted, spelt, Strict}
use Rattle.eos.specs.Model as eos
use Rattle.eos.proofs.CountedLaws.{tally_strict, spelt_tally}
use Rattle.eos.proofs.FiringLaws.{alike, token_order}
use Rattle.model.specs.Limits.{room_limit}
use Rattle.marking.specs.Tokens.{entries_in}
use Rattle.marking.specs.declared.Entry.{Entry}
use Rattle.marking.proofs.KeptLaws.{length_held}
use Rattle.marking.specs.Held.{Sizes, Roomy, hold_marking, line_of, tokens_of, has_room, held_token, held_entry, held_marking, SizedMarking}
use Rattle.marking.specs.Reading.{limits, read_start, right_net_token, right_block}
use Rattle.marking.specs.Printed.{net_token_text, block_text, marking_text, held_text}
use Rattle.marking.specs.declared.Marking.{Marking}
use Rattle.marking.proofs.BlockExactly.{start_exactly}
use Rattle.marking.proofs.HoldMarking.{RightLine, right_is, Held, Tested, room_right, entries_again, held_tokens}
use Rattle.marking.proofs.LinesLaid.{few-digits, counts_one, length_many, line_length}

-- written lines never repeat a net-token: they are of unlike ones, in ascending order, each of at least one
pub entries_strict : (μ : eos.Marking) → Strict eos.before (eos.entries μ)
entries_strict = tally_strict eos.before eos.like token_order alike

-- what the entries of a marking in canonical order spell is that marking
pub spelt_entries : (μ : eos.Marking) → eos.canonical μ ≡ μ → spelt (eos.entries μ) ≡ μ
spelt_entries μ ordered = spelt_tally eos.before eos.like token_order alike μ ∙ ordered

-- ---- how long it is at most

no_line : Counted eos.NetToken
no_line = counted (record { place = 0; inside = [] }) 0

module _ (z : Sizes) (roomy : Roomy z) (places : z.places ≤ 99) where
  counts_length : (counts : List ℕ) (n : ℕ) → length (end_text decimal lf counts) ≤ 192 → n < 65536 → length (counts_text counts n) ≤ 198
  counts_length counts n h few =
      by_test (eqb n 1)
      (λ e. omega (arith, h, ap length (counts_one counts n (eqb-true n 1 e))))
      (λ e. omega (arith, h, length_many counts n (eqb-false n 1 e), few-digits n few))

  line_most : (l : Counted eos.NetToken) → RightLine (limits 256 65535) z l → length (net_token_text l) ≤ 207
  unfolding net_token_text token_text
  line_most l r =
      let t = l.one in
      let short = ended-length decimal 0 5 lf t.inside 31 (omega (arith, r.token.size, roomy (suc t.place))) (λ i p.
      few-digits (get_or t.inside i 0) (omega (arith, leb-true (get_or t.inside i 0) 65535 (every-at (λ v. leb v 65535) t.inside i 0 r.token.counts p)))) in
      omega (
        arith,
        line_length (suc t.place) t.inside l.times,
        length-below 1 (suc t.place) (omega (arith, r.token.place)),
        counts_length t.inside l.times (omega (arith, short)) (omega (arith, leb-true l.times 65535 r.times)),
      )

  -- a block, by its key
  pub block_length : (key : Text) (ls : eos.Lines) → right_block (limits 256 65535) z ls ≡ true → length (block_text key ls) ≤ length key + 52996
  unfolding block_text right_block
  block_length key ls h =
      let p = and_true (leb (length ls) 256) _ h in
      let few = leb-true (length ls) 256 p.0 in
      let lines = texts-length net_token_text no_line 207 ls 256 few (λ i q. line_most (get_or ls i no_line)
      (right_is (limits 256 65535) z (get_or ls i no_line) (every-at (right_net_token (limits 256 65535) z) ls i no_line p.1 q))) in
      omega (
        arith,
        length-append (number_text key (length ls)) (texts net_token_text ls),
        number_line_length key (length ls),
        length-below 2 (length ls) (omega arith),
        lines,
      )

  pub marking_length : (μ : eos.Marking) → right_block (limits 256 65535) z (eos.entries μ) ≡ true → length (marking_text μ) ≤ 53002
  unfolding marking_text
  marking_length μ h = block_length (bytes "start=") (eos.entries μ) h

  pub held_text_length : (k : Marking) → SizedMarking k → held_marking room_limit z k ≡ true → length (marking_text (tokens_of z k)) ≤ 53002
  held_text_length k sz h = marking_length (tokens_of z k) (held_tokens z roomy k sz h).0.right

-- ---- the text of the net-tokens that it holds

module _ (z : Sizes) where
  -- the line of an entry is that of what it stands for
  pub held_text_lem : (e : Entry) → held_entry z e ≡ true → net_token_text (line_of z e) ≡ held_text z e
  unfolding net_token_text held_text held_token
  held_text_lem e h =
      let t = e.token in
      let w = within-is 1 z.places t.place (and_true (in_range 1 z.places t.place) _ (and_true (held_token z t) _ h).0).0 in
      let k : suc (t.place - 1) ≡ t.place = omega arith in
      rw k

  held_texts : (es : List Entry) → every (held_entry z) es ≡ true → texts net_token_text (map (line_of z) es) ≡ texts (held_text z) es
  unfolding texts
  held_texts [] h = refl
  held_texts (e ∷ es) h = let p = and_true (held_entry z e) _ h in rw (held_text_lem e p.0, held_texts es p.1)

  module _ (roomy : Roomy z) (k : Marking) (t : Tested z k) where
    module _ (key : Text) where
      pub block_held : block_text key (eos.entries (tokens_of z k)) ≡ number_text key k.len ++ texts (held_text z) (entries_in k)
      unfolding block_text
      block_held = rw (entries_again z roomy k t, held_texts (entries_in k) t.right, length-map (entries_in k) (line_of z), length_held k t.kept)

      -- its bytes, as the code counts them
      pub text_length : length (block_text key (eos.entries (tokens_of z k))) ≡ length key + length (decimal k.len) + 1 + length (texts (held_text z) (entries_in k))
      text_length = rw (block_held, length-append, number_line_length key k.len)

      -- and laid in two parts
      pub text_laid : (out : List ℕ) (at : ℕ) {next : ℕ} {m l : List ℕ} → Laid (number_text key k.len) out at next m
          → l ≡ sets m next (texts (held_text z) (entries_in k))
          → l ≡ sets out at (block_text key (eos.entries (tokens_of z k)))
      text_laid out at p e = e ∙ rw (p.0, p.1, block_held, sets_append)

-- ---- it reads back

stands_alone : (s : Text) → Stands s 0 s
stands_alone s = rw (zero-add (length s), drop-length s, append-nil s)

-- the written text of a right marking in canonical order is read as its entries, which are that marking
pub written_reads_back : (z : Sizes) (μ : eos.Marking) → Held z μ
    → read_start room_limit (limits 256 65535) z (marking_text μ) 0 ≡ got (eos.entries μ) (length (marking_text μ))
unfolding marking_text
written_reads_back z μ h =
    let s = marking_text μ in
    let fit : has_room room_limit (spelt (eos.entries μ)) ≡ true = ap (has_room room_limit) (spelt_entries μ h.ordered) ∙ room_right z μ h in
    (start_exactly (limits 256 65535) z s room_limit).forth 0 (eos.entries μ) (stands_alone s)
    (and_both (right_block (limits 256 65535) z (eos.entries μ)) _ h.right fit) ∙ rw (zero-add (length s))

module _ (z : Sizes) (roomy : Roomy z) (k : Marking) (sz : SizedMarking k) (h : held_marking room_limit z k ≡ true) where
  -- a held marking is what is held of its net-tokens
  pub held_again : hold_marking (eos.canonical (tokens_of z k)) ≡ k
  held_again = let p = held_tokens z roomy k sz h in rw p.0.ordered (sym p.1)
