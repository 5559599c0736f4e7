-- The numbers and the names of codes.
use Rattle.std.specs.Prelude.{ℕ, List, codes}
use Rattle.meaning.specs.declared.code.Code.{Code}
use Rattle.meaning.specs.declared.code.Code.TheVariants.{UnclosedQuote, ContinuationAtEnd, BadDollar, QuoteTail, UnknownCommand, WordCount, BadWord, BadValue, UnknownName, NameExists, Mixed, NotText, Syntax, DivideByZero, FormulaRange, TooDeep, NotNumber, NoLabel, NoFile, FileTooLong, IncludeTooDeep, NameUse, CompressedName, NoBox, BoxExists, WrongStyle, EdgeTooSmall, Unset, TwiceMoved, DataLine, NoneWhole, TooMany, SpeedRange, Worn}

abbrev pub code_number : Code → ℕ
code_number UnclosedQuote = 1
code_number ContinuationAtEnd = 2
code_number BadDollar = 3
code_number QuoteTail = 4
code_number UnknownCommand = 5
code_number WordCount = 6
code_number BadWord = 7
code_number BadValue = 8
code_number UnknownName = 9
code_number NameExists = 10
code_number Mixed = 11
code_number NotText = 12
code_number Syntax = 13
code_number DivideByZero = 14
code_number FormulaRange = 15
code_number TooDeep = 16
code_number NotNumber = 17
code_number NoLabel = 18
code_number NoFile = 19
code_number FileTooLong = 20
code_number IncludeTooDeep = 21
code_number NameUse = 22
code_number CompressedName = 23
code_number NoBox = 24
code_number BoxExists = 25
code_number WrongStyle = 26
code_number EdgeTooSmall = 27
code_number Unset = 28
code_number TwiceMoved = 29
code_number DataLine = 30
code_number NoneWhole = 31
code_number TooMany = 32
code_number SpeedRange = 33
code_number Worn = 34

-- the name of a code, as it stands in the line of a refusal
abbrev pub code_name : Code → List ℕ
code_name UnclosedQuote = codes "UnclosedQuote"
code_name ContinuationAtEnd = codes "ContinuationAtEnd"
code_name BadDollar = codes "BadDollar"
code_name QuoteTail = codes "QuoteTail"
code_name UnknownCommand = codes "UnknownCommand"
code_name WordCount = codes "WordCount"
code_name BadWord = codes "BadWord"
code_name BadValue = codes "BadValue"
code_name UnknownName = codes "UnknownName"
code_name NameExists = codes "NameExists"
code_name Mixed = codes "Mixed"
code_name NotText = codes "NotText"
code_name Syntax = codes "Syntax"
code_name DivideByZero = codes "DivideByZero"
code_name FormulaRange = codes "FormulaRange"
code_name TooDeep = codes "TooDeep"
code_name NotNumber = codes "NotNumber"
code_name NoLabel = codes "NoLabel"
code_name NoFile = codes "NoFile"
code_name FileTooLong = codes "FileTooLong"
code_name IncludeTooDeep = codes "IncludeTooDeep"
code_name NameUse = codes "NameUse"
code_name CompressedName = codes "CompressedName"
code_name NoBox = codes "NoBox"
code_name BoxExists = codes "BoxExists"
code_name WrongStyle = codes "WrongStyle"
code_name EdgeTooSmall = codes "EdgeTooSmall"
code_name Unset = codes "Unset"
code_name TwiceMoved = codes "TwiceMoved"
code_name DataLine = codes "DataLine"
code_name NoneWhole = codes "NoneWhole"
code_name TooMany = codes "TooMany"
code_name SpeedRange = codes "SpeedRange"
code_name Worn = codes "Worn"
