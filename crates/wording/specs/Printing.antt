-- 01, "Text lines": the worked example, and what it prints; by 02 the setup line has six sorters (T-01), each set as 01 sets its one, sdp has one decimal (T-06), and the sheet class counts (T-05).
use Rattle.std.specs.Prelude.{ℕ, ◌≡◌, List, [], ◌∷◌, ◌++◌}
use Prim.Native.String.{String}
use Rattle.decimal.specs.Bytes.{bytes, lf}
use Rattle.controller.specs.Input.{program}

-- each with its LF
abbrev pub lines : List String → List ℕ
lines [] = []
lines (l ∷ ls) = bytes l ++ lf ∷ lines ls

abbrev pub example_input : List String
example_input =
    "mode=1 edge=1 tc=0 tw=0 ta=2 tf=0 ts1=1 to1=1 sort1=0 ts2=1 to2=1 sort2=0 ts3=1 to3=1 sort3=0 ts4=1 to4=1 sort4=0 ts5=1 to5=1 sort5=0 ts6=1 to6=1 sort6=0 stop=0 need=0"
    ∷ "code=0 target=1000 lolo=900 lo=990 hi=1010 hihi=1100 nearzero=100 tare=0"
    ∷ "COPR"
    ∷ "sensor=1 emergency=0 safety=255 foreign=0 gross=500"
    ∷ "sensor=1 emergency=0 safety=255 foreign=0 gross=1003"
    ∷ "sensor=1 emergency=0 safety=255 foreign=0 gross=1004"
    ∷ "CDTL0100"
    ∷ "report=0"
    ∷ []

abbrev pub example_output : List String
example_output =
    "status=0 busy=0 conveyor=0 sorter=0 detected=0 outcome=0 net=0 tallied=0 error=none"
    ∷ "status=0 busy=0 conveyor=0 sorter=0 detected=0 outcome=0 net=0 tallied=0 error=none"
    ∷ "status=1 busy=0 conveyor=1 sorter=0 detected=0 outcome=0 net=0 tallied=0 error=none"
    ∷ "status=1 busy=1 conveyor=1 sorter=0 detected=1 outcome=0 net=0 tallied=0 error=none"
    ∷ "status=1 busy=1 conveyor=1 sorter=0 detected=0 outcome=0 net=0 tallied=0 error=none"
    ∷ "status=1 busy=0 conveyor=1 sorter=0 detected=0 outcome=3 net=1004 tallied=1 error=none"
    ∷ "refused=2 input=0"
    ∷ "code=0" ∷ "total=1" ∷ "ng=0" ∷ "lolo=0" ∷ "lo=0" ∷ "ok=1" ∷ "hi=0" ∷ "hihi=0" ∷ "foreign=0" ∷ "double=0" ∷ "crash=0"
    ∷ "max=1004" ∷ "min=1004" ∷ "sum=1004" ∷ "mean=1004" ∷ "deviation=4" ∷ "sd=none" ∷ "sdp=0.0"
    ∷ "class0=0" ∷ "class1=0" ∷ "class2=0" ∷ "class3=0" ∷ "class4=0" ∷ "class5=0" ∷ "class6=0" ∷ "class7=0" ∷ "class8=0" ∷ "class9=0" ∷ "class10=1"
    ∷ "class11=0" ∷ "class12=0" ∷ "class13=0" ∷ "class14=0" ∷ "class15=0" ∷ "class16=0" ∷ "class17=0" ∷ "class18=0" ∷ "class19=0" ∷ "class20=0"
    ∷ []

abbrev pub Printing : Type 0
Printing = program (lines example_input) ≡ lines example_output
