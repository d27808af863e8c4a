-- Laws of the lines of net-tokens: of one line, of the loop that puts each line's net-tokens in where they belong, and of a whole start or block.
use Prim.Native.Nat.{ℕ, zero, suc, ◌+◌, ◌-◌, ◌≤◌, ◌<◌}
use mathlib.Core.Path.{◌≡◌, refl, ap, sym, ◌∙◌, subst, fun_ext}
use mathlib.Core.List.{List, [], ◌∷◌, ◌++◌, map, append-nil, append_assoc, map-append}
use mathlib.Core.Bool.{Bool, true, false}
use native.Mathlib.Omega.{arith}
use native.Mathlib.Nat.{sub-zero}
use lib.Dec.{leb, leb-zero}
use lib.ListN.{replicate}
use borrow.Author.Tests.{leb-true}
use Rattle.text.specs.Bytes.{Text, bytes}
use Rattle.text.proofs.Basics.{and_true}
use Rattle.text.specs.Lines.{Outcome, got, bad, fault, then, many, many_within, in_range, read_number}
use Rattle.std.specs.Prelude.{Result}
use Rattle.std.specs.declared.result.Result.TheVariants.{Ok, Err}
use Rattle.text.specs.Repeat.{fill, filled}
use Rattle.text.specs.Answers as text
use Rattle.text.specs.Answers.{kept, padded}
use Rattle.text.specs.declared.TokenLine.{TokenLine}
use Rattle.text.specs.declared.Cause.TheVariants.{Crowded}
use Rattle.text.proofs.Loops.{within_turn, within_bad, within_out, within_done}
use Rattle.text_reader.specs.Place.{placed, Reads}
use Rattle.text_reader.specs.declared.Reader.{Reader}
use Rattle.text_reader.proofs.ReadsLaws.{placed_same, itself, plainly, read_of, refused_of, first_refused, followed, passes, fails}
use Rattle.marking.specs.Answers.{entry_line, hold_block}
use Rattle.text.specs.Token.{Token}
use Rattle.text.specs.TokenLine.{read_token, right_token}
use Rattle.text.specs.declared.Fault.{Fault}
use Rattle.text.proofs.TestLaws.{within-is}
use Rattle.text.proofs.Exactly.{got-is}
use Rattle.text.proofs.LinesExactly.{number_exactly, token_exactly}
use Rattle.eos.specs.Multiset as M
use Rattle.eos.specs.Counted.{Counted, spelt, fits}
use Rattle.eos.specs.Model as eos
use Rattle.eos.proofs.MultisetLaws.{count_append}
use Rattle.eos.proofs.CountedLaws.{spelt_append}
use Rattle.model.specs.Limits.{line_limit, count_limit, alike_limit}
use Rattle.marking.specs.Tokens.{like, before, copies, tokens_in, held_by, Kept, held_or, put_in}
use Rattle.marking.specs.declared.NetToken.{NetToken}
use Rattle.marking.specs.declared.Entry.{Entry}
use Rattle.marking.specs.declared.Marking.{Marking}
use Rattle.marking.proofs.TokenOrder.{held_alike}
use Rattle.marking.proofs.KeptLaws.{kept_tally, tokens_tally}
use Rattle.marking.proofs.Changes.{held_done, held_left, held_or_same}
use Rattle.marking.specs.Held.{Sizes, Roomy, hold_token, hold_line, no_marking, has_room}
use Rattle.marking.specs.Reading.{Limits, limits, line_token, read_net_token}
use Rattle.marking.proofs.BlockExactly.{net_token_exactly}
use Rattle.marking.proofs.HeldOrder.{Fitting, All, none, more, all_append}
use Rattle.marking.proofs.HeldBy.{fits_held, held_by_is}
use Rattle.marking.proofs.HoldMarking.{RightLine, right_is, fitting}

-- ---- one line

module _ (lim : Limits) (z : Sizes) (old : Reader) where
  abbrev line : Outcome Token
  line = read_token (bytes "token=") z.places z.size lim.counts lim.times old.src.now old.at

  abbrev make : Token → ℕ → Outcome (Counted eos.NetToken)
  make t x = got (line_token t) x

  pub token_refused : {new : Reader} (e : Fault) → Reads (kept text.token_line line) old new (Err e) → Reads (kept hold_line (read_net_token lim z old.src.now old.at)) old new (Err e)
  unfolding read_net_token
  token_refused e k = first_refused text.token_line hold_line line (λ _. make) e k

  pub token_read : {new : Reader} (t : TokenLine) → Reads (kept text.token_line line) old new (Ok t)
      → Reads (kept hold_line (read_net_token lim z old.src.now old.at)) old new (Ok (entry_line t))
  unfolding read_net_token right_token text.token_line
  token_read {new} t k =
      followed text.token_line hold_line line (λ _. make) t _ k
      (λ v is held.
      let a = (token_exactly (bytes "token=") z.places z.size lim.counts lim.times old.src.now).back old.at v new.at is in
      let w = within-is 1 z.places v.place (and_true (in_range 1 z.places v.place) _ a.fine-is).0 in
      let n : suc (v.place - 1) ≡ v.place = omega (arith, w.0) in
      let same : entry_line t ≡ hold_line (line_token v) =
      ap entry_line held ∙ ap (λ (p : ℕ). record { token = record { place = p; counts = padded v.counts }; times = v.times }) (sym n) in
      subst (λ (x : Entry). Reads (kept hold_line (make v new.at)) new new (Ok x)) (sym same) (passes hold_line (make v new.at) (line_token v) refl refl))

-- a line that is read is right
pub line_right : (lim : Limits) (z : Sizes) (s : Text) (at : ℕ) (l : Counted eos.NetToken) (next : ℕ) → read_net_token lim z s at ≡ got l next → RightLine lim z l
line_right lim z s at l next e = right_is lim z l ((net_token_exactly lim z s).back at l next e).fine-is

-- an entry that is read has one net-token at least, and no more than a line may stand for
pub line_fits : (z : Sizes) (old : Reader) {new : Reader} (e : Entry) → Reads (kept hold_line (read_net_token (limits line_limit count_limit) z old.src.now old.at)) old new (Ok e)
    → (1 ≤ e.times) × (e.times ≤ alike_limit)
line_fits z old {new} e r =
    let q = read_of hold_line (read_net_token (limits line_limit count_limit) z old.src.now old.at) e r in
    let l = line_right (limits line_limit count_limit) z old.src.now old.at q.value new.at q.is in
    let n : e.times ≡ q.value.times = ap (λ (x : Entry). x.times) q.held in
    (omega (arith, n, l.some), omega (arith, n, leb-true q.value.times alike_limit l.times))

-- ---- the loop

-- the lines as they come, one behind the other
abbrev pub put : ℕ → Counted eos.NetToken → eos.Lines → eos.Lines
put i l ls = ls ++ (l ∷ [])

fill_put : (i : ℕ) (ls seen : eos.Lines) → fill put i ls seen ≡ seen ++ ls
unfolding fill
fill_put i [] seen = sym (append-nil seen)
fill_put i (l ∷ ls) seen = fill_put (suc i) ls (seen ++ (l ∷ [])) ∙ append_assoc seen (l ∷ []) ls

bad_filled : (o : Outcome eos.Lines) (e : Fault) → filled put 0 [] o ≡ bad e → o ≡ bad e
unfolding filled
bad_filled (got ls x) e p = let z : ◌≡◌ {A = ℕ} 0 1 = cc in absurd (omega arith)
bad_filled (bad d) e p = cc

module _ (lim : Limits) (z : Sizes) (room n : ℕ) (old : Reader) where
  abbrev reads : Text → ℕ → Outcome (Counted eos.NetToken)
  reads s = read_net_token lim z s

  abbrev fit : eos.Lines → Bool
  fit ls = has_room room (spelt ls)

  abbrev from : Text → eos.Lines → ℕ → ℕ → Outcome eos.Lines
  from s seen n at = many_within fit Crowded (reads s) seen n at

  -- i lines are held, and the reading goes on from here
  pub record Going (i : ℕ) (k : Marking) (now : Reader) : Type 0 where
    pub same : now.src ≡ old.src
    pub lines : eos.Lines
    pub all : All z (spelt lines)
    pub fits : fit lines ≡ true
    pub held : k ≡ held_by (map hold_token (spelt lines))
    pub left : filled put 0 [] (from old.src.now [] n old.at) ≡ filled put i lines (from old.src.now lines (n - i) now.at)

  pub going_start : fit [] ≡ true → Going 0 no_marking old
  unfolding held_by
  going_start h = record { same = refl; lines = []; all = none; fits = h; held = refl; left = rw (sub-zero n) refl }

  abbrev whole : Outcome eos.Lines
  whole = from old.src.now [] n old.at

  module _ (i : ℕ) (k : Marking) (now : Reader) (g : Going i k now) where
    held_fits : fits before like room alike_limit (map hold_token (spelt g.lines)) ≡ true
    held_fits = fits_held z room (spelt g.lines) g.all ∙ g.fits

    -- they are kept, so that more can be put in
    pub going_kept : room ≤ 256 → (k.len ≤ room) × Kept k
    going_kept few = rw g.held (kept_tally room (map hold_token (spelt g.lines)) few held_fits)

    -- what is held is what was read
    module _ (l : Counted eos.NetToken) (f : Fitting z l.one) where
      abbrev next_lines : eos.Lines
      next_lines = g.lines ++ (l ∷ [])

      all_next : All z (spelt (g.lines ++ (l ∷ [])))
      all_next = rw (spelt_append g.lines (l ∷ [])) (all_append z (spelt g.lines) (spelt (l ∷ [])) g.all (all_copies l.times))
        where
          all_copies : (m : ℕ) → All z (replicate m l.one ++ [])
          all_copies zero = none
          all_copies (suc m) = more f (all_copies m)

      same_next : M.Same like (copies (hold_line l) ++ tokens_in k) (map hold_token (spelt (g.lines ++ (l ∷ []))))
      same_next x =
          let e : map hold_token (spelt next_lines) ≡ map hold_token (spelt g.lines) ++ map hold_token (spelt (l ∷ [])) =
          ap (map hold_token) (spelt_append g.lines (l ∷ [])) ∙ map-append hold_token (spelt g.lines) (spelt (l ∷ [])) in
          let c : map hold_token (spelt (l ∷ [])) ≡ copies (hold_line l) = map_copies l.times in
          count_append like held_alike x (copies (hold_line l)) (tokens_in k)
          ∙ omega (
            arith,
            ap (M.count like x) e,
            count_append like held_alike x (map hold_token (spelt g.lines)) (map hold_token (spelt (l ∷ []))),
            ap (M.count like x) c,
            ap (λ (j : Marking). M.count like x (tokens_in j)) g.held,
            tokens_tally (map hold_token (spelt g.lines)) x,
          )
        where
          map_copies : (m : ℕ) → map hold_token (replicate m l.one ++ []) ≡ replicate m (hold_token l.one)
          map_copies zero = refl
          map_copies (suc m) = ap (λ (ts : List NetToken). hold_token l.one ∷ ts) (map_copies m)

      put_is : put_in room (hold_line l) k ≡ held_or room k (map hold_token (spelt (g.lines ++ (l ∷ []))))
      put_is = held_or_same room k (copies (hold_line l) ++ tokens_in k) (map hold_token (spelt next_lines)) same_next

    -- net-tokens more are read, and there is room for them
    pub going_turn : (new : Reader) (e : Entry) (after : Marking) → i < n → Roomy z
        → Reads (kept hold_line (reads now.src.now now.at)) now new (Ok e) → record { done = true; marking = after } ≡ put_in room e k → Going (i + 1) after new
    going_turn new e after h roomy r f =
        let q = read_of hold_line (reads now.src.now now.at) e r in
        let l = q.value in
        let is : reads old.src.now now.at ≡ got l new.at = subst (λ (x : _). reads x.now now.at ≡ got l new.at) g.same q.is in
        let t = fitting lim.counts z l.one roomy (line_right lim z old.src.now now.at l new.at is).token in
        let p : record { done = true; marking = after } ≡ held_or room k (map hold_token (spelt (g.lines ++ (l ∷ [])))) = f ∙ ap (λ (x : Entry). put_in room x k) q.held ∙ put_is l t in
        let d = held_done room k (map hold_token (spelt (g.lines ++ (l ∷ [])))) p in
        let a = all_next l t in
        let fine : fit (g.lines ++ (l ∷ [])) ≡ true = sym (fits_held z room (spelt (g.lines ++ (l ∷ []))) a) ∙ d.0 in
        record {
          same = ap (λ (x : Reader). x.src) q.moved ∙ g.same;
          lines = g.lines ++ (l ∷ []);
          all = a;
          fits = fine;
          held = d.1;
          left = g.left ∙ within_turn put fit Crowded (reads old.src.now) g.lines i n now.at g.lines h l new.at is fine;
        }

    -- a line that is refused ends the reading
    pub going_bad : (new : Reader) (e : Fault) → i < n → Reads (kept hold_line (reads now.src.now now.at)) now new (Err e) → Reads (kept hold_block whole) old new (Err e)
    going_bad new e h r =
        let q = refused_of hold_line (reads now.src.now now.at) e r in
        let is : reads old.src.now now.at ≡ bad e = subst (λ (x : _). reads x.now now.at ≡ bad e) g.same q.is in
        fails hold_block whole e (bad_filled whole e (g.left ∙ within_bad put fit Crowded (reads old.src.now) g.lines i n now.at g.lines h e is)) (q.stands ∙ placed_same now old g.same e.at)

    -- and so does one whose net-tokens have no room
    pub going_out : (new last : Reader) → last ≡ placed new now.at → (e : Entry) (after : Marking) → i < n → Roomy z
        → Reads (kept hold_line (reads now.src.now now.at)) now new (Ok e) → record { done = false; marking = after } ≡ put_in room e k
        → Reads (kept hold_block whole) old last (Err (fault Crowded now.at))
    going_out new last back e after h roomy r f =
        let q = read_of hold_line (reads now.src.now now.at) e r in
        let l = q.value in
        let is : reads old.src.now now.at ≡ got l new.at = subst (λ (x : _). reads x.now now.at ≡ got l new.at) g.same q.is in
        let t = fitting lim.counts z l.one roomy (line_right lim z old.src.now now.at l new.at is).token in
        let p : record { done = false; marking = after } ≡ held_or room k (map hold_token (spelt (g.lines ++ (l ∷ [])))) = f ∙ ap (λ (x : Entry). put_in room x k) q.held ∙ put_is l t in
        let out : fit (g.lines ++ (l ∷ [])) ≡ false = sym (fits_held z room (spelt (g.lines ++ (l ∷ []))) (all_next l t)) ∙ (held_left room k (map hold_token (spelt (g.lines ++ (l ∷ [])))) p).0 in
        fails hold_block whole (fault Crowded now.at)
        (bad_filled whole (fault Crowded now.at) (g.left ∙ within_out put fit Crowded (reads old.src.now) g.lines i n now.at g.lines h l new.at is out))
        (back ∙ placed_same new old (ap (λ (x : Reader). x.src) q.moved ∙ g.same) now.at)

    -- after n lines they are those of the canonical list
    pub going_done : n ≤ i → Reads (kept hold_block whole) old now (Ok k)
    unfolding filled
    going_done h = go whole (g.left ∙ within_done put fit Crowded (reads old.src.now) g.lines i n now.at g.lines h)
      where
        go : (o : Outcome eos.Lines) → filled put 0 [] o ≡ got g.lines now.at → Reads (kept hold_block o) old now (Ok k)
        go (got ls x) p =
            let q = got-is p in
            let c : ls ≡ g.lines = sym (fill_put 0 ls []) ∙ q.0 in
            let same : k ≡ hold_block ls = g.held ∙ held_by_is z (spelt g.lines) g.all ∙ ap hold_block (sym c) in
            subst (λ (y : Marking). Reads (kept hold_block (got ls x)) old now (Ok y)) (sym same)
            (passes hold_block (got ls x) ls (ap (λ (y : ℕ). got ls y) q.1) (ap (λ (s : _). record { src = s; at = now.at }) g.same))
        go (bad d) p = let z : ◌≡◌ {A = ℕ} 0 1 = cc in absurd (omega arith)

-- ---- the whole start, and the whole block

-- a range from 0 on
from_zero : (hi : ℕ) → in_range 0 hi ≡ (λ v. leb v hi)
from_zero hi = fun_ext (λ v. rw (leb-zero v))

-- over how what is behind the number is read and held
module _ {A B : Type 0} (hold : A → B) (behind : Text → ℕ → ℕ → Outcome A) (key : Text) (most : ℕ) (old : Reader) where
  abbrev number : Outcome ℕ
  number = read_number key (in_range 0 most) old.src.now old.at

  abbrev all_of_it : Outcome A
  all_of_it = then (read_number key (λ v. leb v most) old.src.now old.at) (behind old.src.now)

  range_is : then (read_number key (in_range 0 most) old.src.now old.at) (behind old.src.now) ≡ then (read_number key (λ v. leb v most) old.src.now old.at) (behind old.src.now)
  range_is = ap (λ (r : ℕ → Bool). then (read_number key r old.src.now old.at) (behind old.src.now)) (from_zero most)

  -- their number is refused
  pub block_refused : {new : Reader} (e : Fault) → Reads number old new (Err e) → Reads (kept hold all_of_it) old new (Err e)
  block_refused e k = rw (← range_is) (first_refused itself hold number behind e (plainly k))

  -- their number is read, and they follow
  module _ {mid : Reader} (n : ℕ) (first : Reads number old mid (Ok n)) where
    pub counted_few : n ≤ most
    counted_few =
        let q = read_of itself number n (plainly first) in
        omega (arith, q.held, (within-is 0 most q.value ((number_exactly key (in_range 0 most) old.src.now).back old.at q.value mid.at q.is).fine-is).1)

    pub block_counted : {new : Reader} (r : Result B Fault) → Reads (kept hold (behind mid.src.now n mid.at)) mid new r → Reads (kept hold all_of_it) old new r
    block_counted r k = rw (← range_is) (followed itself hold number behind n r (plainly first) (λ v is same. rw (← same) k))

-- the lines of a block, and of a start: a line of net-tokens does not depend on how many may follow
abbrev pub lines_behind : Sizes → Text → ℕ → ℕ → Outcome eos.Lines
lines_behind z s n x = many (read_net_token (limits line_limit count_limit) z s) n x

abbrev pub start_behind : ℕ → Sizes → Text → ℕ → ℕ → Outcome eos.Lines
start_behind room z s n x = many_within (λ ls. has_room room (spelt ls)) Crowded (read_net_token (limits line_limit count_limit) z s) [] n x
