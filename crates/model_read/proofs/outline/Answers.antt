-- `outline` reads the lines from `eos` to `type`: one of them is refused, or it is held.
use native.Mathlib.Omega.{arith}
use Rattle.text.proofs.Basics.{handed_on}
use Rattle.text.specs.Bytes.{bytes}
use Rattle.text_reader.proofs.ReadsLaws.{list_read}
use Rattle.model_text.proofs.PartLaws.{head_refused, nets_refused, nets_few, places_refused, types_refused, outline_read}
use Rattle.model_read.proofs.outline.Goals as goal

pub returns-in_err-heads : goal.returns-in_err-heads
returns-in_err-heads c =
    rw (handed_on _ c.from_residual.ensures.1) (head_refused c.args.r.now _ c.in_err-heads.ensures)

pub returns-in_err-nets : goal.returns-in_err-nets
returns-in_err-nets c =
    rw (handed_on _ c.from_residual-in_err-nets.ensures.1) (nets_refused c.args.r.now _ c.in_ok-heads.ensures _ c.in_err-nets.ensures)

pub returns-in_err-number : goal.returns-in_err-number
returns-in_err-number c =
    rw (handed_on _ c.from_residual-in_err-number.ensures.1) (places_refused c.args.r.now _ c.in_ok-heads.ensures _ c.in_ok-nets.ensures _ c.in_err-number.ensures)

pub returns-in_err-types : goal.returns-in_err-types
returns-in_err-types c =
    let few = nets_few c.args.r.now _ c.in_ok-heads.ensures _ c.in_ok-nets.ensures in
    rw (handed_on _ c.from_residual-in_err-types.ensures.1)
    (types_refused c.args.r.now _ c.in_ok-heads.ensures _ c.in_ok-nets.ensures _ c.in_ok-number.ensures _ (list_read 255 _ (bytes "type=") _ _ _ (omega (arith, few)) (rw c.from-places.ensures at c.in_err-types.ensures)))

pub returns : goal.returns
returns c =
    let few = nets_few c.args.r.now _ c.in_ok-heads.ensures _ c.in_ok-nets.ensures in
    rw (c.from.ensures, c.from-header.ensures, c.from-places.ensures)
    (outline_read c.args.r.now _ c.in_ok-heads.ensures _ c.in_ok-nets.ensures _ c.in_ok-number.ensures _ (list_read 255 _ (bytes "type=") _ _ _ (omega (arith, few)) (rw c.from-places.ensures at c.in_ok-types.ensures)))
