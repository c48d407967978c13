-- 01, "Text lines": its example lines, and lines that are none of them.
use Prim.Native.String.{String}
use Rattle.std.specs.Prelude.{◌≡◌, pos, negsuc, replicate, Option, Some, None}
use Rattle.decimal.specs.Bytes.{bytes}
use Rattle.text.specs.declared.Read.{Read}
use Rattle.text.specs.declared.Read.TheVariants as read
use Rattle.event.specs.Setup.{sorter_count}
use Rattle.event.specs.declared.SorterSetup.{SorterSetup}
use Rattle.event.specs.declared.Event.TheVariants as event
use Rattle.numeral.specs.Number.{limit}
use Rattle.text.specs.Read.{read_line}

abbrev pub said : String → Option Read
said s = read_line (bytes s)

abbrev sorter : SorterSetup
sorter = record { ts = 1; to = 1; sort = 0 }

pub record Reading : Type 0 where
  pub setup : said "mode=1 edge=1 tc=0 tw=0 ta=2 tf=0 ts1=1 to1=1 sort1=0 ts2=1 to2=1 sort2=0 ts3=1 to3=1 sort3=0 ts4=1 to4=1 sort4=0 ts5=1 to5=1 sort5=0 ts6=1 to6=1 sort6=0 stop=0 need=0" ≡ Some (read.Event (event.Setup (record {
    mode = 1;
    edge = 1;
    tc = 0;
    tw = 0;
    ta = 2;
    tf = 0;
    sorters = replicate sorter_count sorter;
    stop = 0;
    need = 0;
  })))
  pub store : said "code=0 target=1000 lolo=900 lo=990 hi=1010 hihi=1100 nearzero=100 tare=0" ≡ Some (read.Event (event.Store (record {
    code = 0;
    settings = record {
      target = pos 1000;
      lolo = pos 900;
      lo = pos 990;
      hi = pos 1010;
      hihi = pos 1100;
      nearzero = pos 100;
      tare = pos 0;
    };
  })))
  pub run : said "COPR" ≡ Some (read.Event event.Run)
  pub sample : said "sensor=1 emergency=0 safety=255 foreign=0 gross=500" ≡ Some (read.Event (event.Sample (record {
    gross = pos 500;
    sensor = 1;
    emergency = 0;
    safety = 255;
    foreign = 0;
  })))
  pub clear : said "CDTL0100" ≡ Some (read.Event (event.ClearCode 100))
  pub report : said "report=0" ≡ Some (read.Report 0)
  -- below 0
  pub below : said "sensor=1 emergency=0 safety=255 foreign=0 gross=-500" ≡ Some (read.Event (event.Sample (record {
    gross = negsuc 499;
    sensor = 1;
    emergency = 0;
    safety = 255;
    foreign = 0;
  })))
  -- well formed, but too large or too small: carried out of range
  pub large : said "report=99999999999999999999999999999999999999" ≡ Some (read.Report limit)
  pub small : said "report=-1" ≡ Some (read.Report limit)
  -- the setup line of one sorter is none any more
  pub one-sorter : said "mode=1 edge=1 tc=0 tw=0 ta=2 tf=0 ts=1 to=1 sort=0 stop=0 need=0" ≡ None
  -- 300 bytes, and one more
  pub longest : said "report=99999999999999999999999999999999999999999999999999999999999999999999999999999999999999999999999999999999999999999999999999999999999999999999999999999999999999999999999999999999999999999999999999999999999999999999999999999999999999999999999999999999999999999999999999999999999999999999999999999" ≡ Some (read.Report limit)
  pub too_long : said "report=999999999999999999999999999999999999999999999999999999999999999999999999999999999999999999999999999999999999999999999999999999999999999999999999999999999999999999999999999999999999999999999999999999999999999999999999999999999999999999999999999999999999999999999999999999999999999999999999999999" ≡ None
  -- not well formed
  pub plus : said "report=+1" ≡ None
  pub leading_zero : said "report=007" ≡ None
  pub minus_zero : said "report=-0" ≡ None
  pub no_digits : said "report=" ≡ None
  pub space-behind : said "report=1 " ≡ None
  pub two_spaces : said "sensor=1  emergency=0 safety=255 foreign=0 gross=500" ≡ None
  pub order : said "sensor=1 emergency=0 foreign=0 safety=255 gross=500" ≡ None
  pub three_digits : said "CDTL010" ≡ None
  pub five-digits : said "CDTL00100" ≡ None
  pub empty-line : said "" ≡ None
