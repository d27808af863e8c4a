-- The listing computes: 01's ("One listing, whole"), byte for byte; and two that end early, after a model whose first line is missing,
-- and after weights that event 1 does not balance.
use mathlib.Core.Path.{◌≡◌, refl}
use Rattle.text.specs.Bytes.{Text, bytes}
use Rattle.text.specs.Printed.{signed_text, list_text, weights_text}
use Rattle.runner_trace.specs.Running.{onward, run_from, headed, run_where_held, running}
use Rattle.starred.proofs.Opened.{opened}
use Rattle.listing.specs.Listing.{model_file, weights_file, trace_file, triple_text, sum_text, cover_text, run_text, listing_text, with_model, with_weights}

-- the files of 01's listing
abbrev pub model : Text
model =
    bytes "eos=1\nnets=1\nplaces=2\ntype=1,1\nmoves=1\npre=1,0\npost=0,1\ninner=2\nsteps=1\npre=1,0\npost=0,1\nevents=2\nevent=1\nsync=1\nidle=2\nsync=1\nstart=2\ntoken=1:1,0\ntoken=1:0,0\n"

abbrev pub weights : Text
weights = bytes "inv=1\nouter=1,1\ninner=1,1\n"

abbrev pub trace : Text
trace = bytes "run=1\nfire=1\ntake=1\ntoken=1:1,0\ngive=1\ntoken=2:0,1\nfire=1\ntake=1\ntoken=1:0,0\ngive=1\ntoken=2:0,0\n"

pub listing-cases :
    (listing_text model weights trace ≡ bytes "model=0,0,0\nweights=0,0,0\nsum=3\ncover=1\nfired=1\nstop=9,1,0\nheld=2\ntoken=1:0,0\ntoken=2:0,1\n")
    × (listing_text (bytes "nets=1\n") weights trace ≡ bytes "model=2,1,1\n")
    × (listing_text (bytes "eos=1\nnets=9\n") weights trace ≡ bytes "model=3,2,6\n")
    × (listing_text model (bytes "inv=1\nouter=1,0\ninner=1,1\n") trace ≡ bytes "model=0,0,0\nweights=7,1,0\n")
    × (listing_text model (bytes "inv=1\nouter=-1,-1\ninner=0,0\n") (bytes "") ≡ bytes "model=0,0,0\nweights=0,0,0\nsum=-2\ncover=0\nfired=0\nstop=2,1,1\nheld=2\ntoken=1:0,0\ntoken=1:1,0\n")
unfolding opened listing_text with_model with_weights run_text cover_text sum_text triple_text trace_file weights_file model_file running run_where_held headed run_from onward
    signed_text list_text weights_text
listing-cases = (refl, refl, refl, refl, refl)
