-- 01's listing ("One listing, whole"): the texts of its model, its weight file and the two steps of its trace.
use Rattle.std.specs.Prelude.{◌++◌}
use Rattle.text.specs.Bytes.{Text, bytes}

abbrev pub listed_model : Text
listed_model =
    bytes "eos=1\nnets=1\nplaces=2\ntype=1,1\nmoves=1\npre=1,0\npost=0,1\n" ++ bytes "inner=2\nsteps=1\npre=1,0\npost=0,1\n"
    ++ bytes "events=2\nevent=1\nsync=1\nidle=2\nsync=1\n" ++ bytes "start=2\ntoken=1:1,0\ntoken=1:0,0\n"

abbrev pub listed_weights : Text
listed_weights = bytes "inv=1\nouter=1,1\ninner=1,1\n"

abbrev pub first_step : Text
first_step = bytes "fire=1\ntake=1\ntoken=1:1,0\ngive=1\ntoken=2:0,1\n"

abbrev pub second_step : Text
second_step = bytes "fire=1\ntake=1\ntoken=1:0,0\ngive=1\ntoken=2:0,0\n"
